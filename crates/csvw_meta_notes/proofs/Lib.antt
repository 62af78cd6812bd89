mod AddsLemmas
mod FitsLemmas
mod ReadLemmas
