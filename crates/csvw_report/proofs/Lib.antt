mod LineFacts
mod OneOrder
mod OrderFacts
mod Sending
