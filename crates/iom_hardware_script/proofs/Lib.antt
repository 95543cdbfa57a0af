mod ClaimLemmas
mod HardwareLineLemmas
mod SetupLemmas
mod HardwareTextLemmas
mod HelpLemmas
