mod NameLemmas
mod NullsLemmas
