-- Why a parse table has no file, if its rows have no arrays.
use Rattle.packed_tables.specs.declared.error.PackError.{PackError}
use Rattle.packed_tables.specs.declared.error.PackError.TheVariants.{TooLarge, Wrong, Memory}
use Rattle.parser_text.specs.declared.error.ParserTextError.{ParserTextError}
use Rattle.parser_text.specs.declared.error.ParserTextError.TheVariants.{Packing, Memory as NoMemory}

-- the reason: an allocation failure is one of both kinds
abbrev pub of_packing : PackError → ParserTextError
of_packing TooLarge = Packing TooLarge
of_packing Wrong = Packing Wrong
of_packing Memory = NoMemory
