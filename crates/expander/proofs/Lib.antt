pub mod MopParts
