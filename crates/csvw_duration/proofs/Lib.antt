mod DigitLemmas
mod ReadAgain
mod OneDuration
mod CalendarLemmas
