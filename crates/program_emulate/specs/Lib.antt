pub mod Emulation
