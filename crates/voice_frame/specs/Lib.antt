pub mod VoiceFrame
