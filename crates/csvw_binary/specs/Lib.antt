pub mod HexTexts
pub mod Base64Texts
pub mod Octets
pub mod Binaries
