mod FacetFitLemmas
mod FormatSoundLemmas
mod NameLemmas
mod PatternLemmas
mod ReadLemmas
mod SoundLemmas
mod TruthLemmas
