pub mod Named
pub mod FirstTurn
pub mod SeenStates
pub mod Raising
pub mod UnderWay
pub mod Standing
