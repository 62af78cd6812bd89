mod CutLemmas
mod FileLemmas
mod SplitLemmas
