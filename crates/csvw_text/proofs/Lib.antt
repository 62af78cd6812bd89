mod LanguageLemmas
mod SpacesLemmas
mod StripLemmas
