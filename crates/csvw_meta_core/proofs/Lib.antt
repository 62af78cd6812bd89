mod ContextLemmas
mod EachLemmas
mod ItemsLemmas
mod NamesLemmas
mod PointerLemmas
mod ReadLemmas
