pub mod GrainsLeft
pub mod GrainsRule
pub mod GrainsWalk
