mod AnyLemmas
mod ContextLemmas
mod DialectLemmas
mod EachLemmas
mod NamesLemmas
mod SoleLemmas
