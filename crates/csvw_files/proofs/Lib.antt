mod Documents
mod FileLemmas
mod ResourceLemmas
