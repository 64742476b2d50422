mod Lists
mod TurnLemmas
mod TextLemmas
