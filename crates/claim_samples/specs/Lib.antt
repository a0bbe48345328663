pub mod LawsSamples
