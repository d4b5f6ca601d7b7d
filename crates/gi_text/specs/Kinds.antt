-- The kinds of tokens, in code and in the table of tokens.
use Rattle.gi_llt.specs.Tokens.{LexemeKind, Word, Number, Register, Physical, Global, Routine, Quoted, Metadata, Mark}
use Rattle.gi_text.specs.declared.token.TokenKind.{TokenKind}
use Rattle.gi_text.specs.declared.token.TokenKind.TheVariants as kind

abbrev pub kind_of : LexemeKind → TokenKind
kind_of Word = kind.Word
kind_of Number = kind.Number
kind_of Register = kind.Register
kind_of Physical = kind.Physical
kind_of Global = kind.Global
kind_of Routine = kind.Routine
kind_of Quoted = kind.Quoted
kind_of Metadata = kind.Metadata
kind_of Mark = kind.Mark

abbrev pub lexeme_kind : TokenKind → LexemeKind
lexeme_kind kind.Word = Word
lexeme_kind kind.Number = Number
lexeme_kind kind.Register = Register
lexeme_kind kind.Physical = Physical
lexeme_kind kind.Global = Global
lexeme_kind kind.Routine = Routine
lexeme_kind kind.Quoted = Quoted
lexeme_kind kind.Metadata = Metadata
lexeme_kind kind.Mark = Mark
