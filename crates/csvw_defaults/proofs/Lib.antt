mod BytesLemmas
mod DepthLemmas
mod ItemLemmas
mod MemberLemmas
mod LeftLemmas
mod SourceLemmas
