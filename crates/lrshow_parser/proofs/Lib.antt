pub mod SameGrammars
