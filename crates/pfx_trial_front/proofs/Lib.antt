mod Lines
mod RefutedCalls
