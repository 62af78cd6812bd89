mod ListLemmas
mod NormalLemmas
mod OverLemmas
mod ReplaceLemmas
