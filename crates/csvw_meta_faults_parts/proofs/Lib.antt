mod FaultsLemmas
mod ItemsLemmas
mod ReferenceLemmas
mod WhicheverLemmas
