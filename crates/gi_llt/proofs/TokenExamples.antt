-- Some lines with their tokens.
use Rattle.std.proofs.Common.{◌≡◌, [], ◌∷◌, Some, None, refl}
use Rattle.std.specs.Prelude.{codes}
use Rattle.gi_llt.specs.Tokens.{Word, Number, Register, Physical, Global, Routine, Quoted, Metadata, Mark, lexeme, tokens_of}

pub tokens_of-addition : tokens_of (codes "    %2:gprb(s32) = G_ADD %0, %1") ≡ Some (lexeme Register (codes "%2")
    ∷ lexeme Mark (codes ":")
    ∷ lexeme Word (codes "gprb")
    ∷ lexeme Mark (codes "(")
    ∷ lexeme Word (codes "s32")
    ∷ lexeme Mark (codes ")")
    ∷ lexeme Mark (codes "=")
    ∷ lexeme Word (codes "G_ADD")
    ∷ lexeme Register (codes "%0")
    ∷ lexeme Mark (codes ",")
    ∷ lexeme Register (codes "%1")
    ∷ [])
tokens_of-addition = refl

pub tokens_of-head : tokens_of (codes "  bb.1.entry (%ir-block.0):") ≡ Some (lexeme Word (codes "bb.1.entry")
    ∷ lexeme Mark (codes "(")
    ∷ lexeme Register (codes "%ir-block.0")
    ∷ lexeme Mark (codes ")")
    ∷ lexeme Mark (codes ":")
    ∷ [])
tokens_of-head = refl

pub tokens_of-memory : tokens_of (codes ":: (load (s32) from %ir.p + 4, !tbaa !2) ; @x") ≡ Some (lexeme Mark (codes ":")
    ∷ lexeme Mark (codes ":")
    ∷ lexeme Mark (codes "(")
    ∷ lexeme Word (codes "load")
    ∷ lexeme Mark (codes "(")
    ∷ lexeme Word (codes "s32")
    ∷ lexeme Mark (codes ")")
    ∷ lexeme Word (codes "from")
    ∷ lexeme Register (codes "%ir.p")
    ∷ lexeme Mark (codes "+")
    ∷ lexeme Number (codes "4")
    ∷ lexeme Mark (codes ",")
    ∷ lexeme Metadata (codes "!tbaa")
    ∷ lexeme Metadata (codes "!2")
    ∷ lexeme Mark (codes ")")
    ∷ [])
tokens_of-memory = refl

-- the first of these is no hexadecimal number, since a sign stands before it
pub tokens_of-numbers : tokens_of (codes "-0x10 0x1Fg 00x1 -7 - 0x s32-") ≡ Some (lexeme Number (codes "-0")
    ∷ lexeme Word (codes "x10")
    ∷ lexeme Number (codes "0x1F")
    ∷ lexeme Word (codes "g")
    ∷ lexeme Number (codes "00")
    ∷ lexeme Word (codes "x1")
    ∷ lexeme Number (codes "-7")
    ∷ lexeme Mark (codes "-")
    ∷ lexeme Number (codes "0")
    ∷ lexeme Word (codes "x")
    ∷ lexeme Word (codes "s32-")
    ∷ [])
tokens_of-numbers = refl

pub tokens_of-names : tokens_of (codes "$x10,@f.1 &__muldi3 '' 'a;b' !") ≡ Some (lexeme Physical (codes "$x10")
    ∷ lexeme Mark (codes ",")
    ∷ lexeme Global (codes "@f.1")
    ∷ lexeme Routine (codes "&__muldi3")
    ∷ lexeme Quoted (codes "''")
    ∷ lexeme Quoted (codes "'a;b'")
    ∷ lexeme Metadata (codes "!")
    ∷ [])
tokens_of-names = refl

-- lines without a token, and lines where a byte begins none
pub tokens_of-comment : tokens_of (codes "   ; ~ %") ≡ Some []
tokens_of-comment = refl

pub tokens_of-tilde : tokens_of (codes "a ~") ≡ None
tokens_of-tilde = refl

pub tokens_of-percent : tokens_of (codes "% 1") ≡ None
tokens_of-percent = refl

pub tokens_of-open : tokens_of (codes "'a") ≡ None
tokens_of-open = refl
