pub mod NumberMirror
pub mod Parted
pub mod LineMirror
pub mod InputMirror
pub mod EndingMirror
pub mod Inputs
