mod ResultLemmas
mod HexLemmas
mod Symbols
mod Base64Lemmas
mod OctetLemmas
mod Laws
