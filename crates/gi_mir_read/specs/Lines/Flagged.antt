-- Whether a flag stands first.
use Rattle.std.specs.Prelude.{Bool, List}
use Rattle.gi_spelling.specs.declared.token.Flag.{Flag}
use Rattle.gi_spelling.specs.declared.token.Flag.TheVariants as flag
use Rattle.gi_spelling.specs.declared.token.Item.{Item}
use Rattle.gi_spelling.specs.Reading.{flag_at, is_no_unsigned_wrap, is_no_signed_wrap, is_exact, is_disjoint, is_non_negative}

abbrev pub has_flag : Flag → List Item → Bool
has_flag flag.NoUnsignedWrap items = is_no_unsigned_wrap (flag_at items)
has_flag flag.NoSignedWrap items = is_no_signed_wrap (flag_at items)
has_flag flag.Exact items = is_exact (flag_at items)
has_flag flag.Disjoint items = is_disjoint (flag_at items)
has_flag flag.NonNegative items = is_non_negative (flag_at items)
