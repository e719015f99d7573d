pub mod ArrayAccesses
pub mod Unwinding
pub mod Locks
pub mod Raising
pub mod Triggers
pub mod Moving
