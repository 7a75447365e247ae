pub mod MoveReady
