pub mod ParserWords
