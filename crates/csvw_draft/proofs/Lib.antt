mod NameLemmas
mod KindLemmas
mod GroupingLemmas
mod Sending
