-- A load with zeros above, in a valid function and in one that is invalid.
use Rattle.std.proofs.Common.{◌≡◌, true, [], inl, refl}
use Rattle.std.specs.Int.RustNames.{count_ones}
use Rattle.gi_mir.specs.Data.{reg_of}
use Rattle.gi_mir.specs.Formed.{is_formed}
use Rattle.gi_valid.specs.Examples.{extents_of}
use Rattle.gi_valid.specs.Faults.{fault_at}
use Rattle.gi_valid.specs.Typing.{Typed}
use Rattle.gi_valid.specs.Valid.{IsInvalid, IsValid}
use Rattle.gi_valid.specs.declared.invalid.Invalid.TheVariants.{TypeMismatch}
use Rattle.gi_valid.proofs.Trials.{alone_contained, alone_greatest, nothing_computed}
use Rattle.gi_change_refines.specs.Loads.{loads_byte, loads_too_much}
use Rattle.gi_change_refines.specs.Sized.{FitsAnywhere, are_formed}
use Rattle.gi_change_refines.proofs.WidthsValid.{widths_valid}

loads_byte_formed : are_formed loads_byte ≡ true
unfolding is_formed count_ones
loads_byte_formed = refl

loads_byte_valid : IsValid 32 Typed loads_byte
loads_byte_valid = record { extents = extents_of [] [] []; contained = alone_contained [] [] loads_byte refl; faultless = refl }

pub loads_byte_fits : FitsAnywhere 32 [] loads_byte
loads_byte_fits = widths_valid 32 [] loads_byte (inl refl) loads_byte_valid loads_byte_formed refl refl

pub loads_too_much_formed : are_formed loads_too_much ≡ true
unfolding is_formed count_ones
loads_too_much_formed = refl

pub loads_too_much_invalid : IsInvalid 32 Typed loads_too_much (fault_at 8 (TypeMismatch (reg_of 1)))
loads_too_much_invalid = record { extents = extents_of [] [] []; greatest = alone_greatest [] [] loads_too_much refl refl (nothing_computed loads_too_much); told = refl }
