mod Lines
mod Names
mod NoReports
