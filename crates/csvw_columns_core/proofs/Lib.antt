mod InheritedLemmas
mod SameLemmas
mod DeclaredLemmas
mod HeaderLemmas
mod XsdLemmas
mod PlaceLemmas
