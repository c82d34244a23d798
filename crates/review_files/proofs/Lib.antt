pub mod PlainNames
pub mod Below
pub mod Leading
pub mod ListedNames
