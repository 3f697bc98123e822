pub mod Inner
pub mod TickVoice
