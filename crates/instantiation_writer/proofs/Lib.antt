mod ListsBefore
mod MapBits
mod OneList
mod ThreeParts
