mod PartsLemmas
mod WritingLemmas
