mod AbsoluteLemmas
mod BytesLemmas
mod ItemsLemmas
mod MembersLemmas
mod ObjectLemmas
mod ReadLemmas
