mod More
mod OneMoreEntry
