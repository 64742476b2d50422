pub mod ActorStep
