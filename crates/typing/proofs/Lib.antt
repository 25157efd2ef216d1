pub mod MadeNodes
pub mod MadeForms
pub mod MadeExprs
pub mod MadeDecls
pub mod FewTypes
pub mod Told
