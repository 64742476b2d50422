mod Lists
mod Legal
mod PassLemmas
mod MomentLemmas
mod Counts
