mod EndingLemmas
mod RunningLemmas
mod NotingLemmas
mod RefutedNoting
mod CauseLemmas
mod ServingLemmas
