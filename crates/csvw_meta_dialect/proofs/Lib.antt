mod FineLemmas
mod FitDialect
mod ReadLemmas
