mod DescribedLemmas
mod NamingLemmas
mod ReadLemmas
