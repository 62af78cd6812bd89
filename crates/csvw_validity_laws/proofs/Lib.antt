mod Headers
mod KeysQuiet
mod Quiet
mod Validating
mod WarningsDocument
mod WarningsRead
