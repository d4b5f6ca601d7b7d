use Rattle.std.proofs.Common.{◌≡◌, ◌*◌, true, false}
use mathlib.Core.Bool.{beq}
use Rattle.gi_llt.proofs.Signs.{signed_product_like, signed_product_unlike}
use Rattle.gi_llt.specs.Signs.{size_of, is_negative}
use Rattle.gi_llt.proofs.bits.signed_product.Goals as goal

pub returns-then-is_below_zero : goal.returns-then-is_below_zero
returns-then-is_below_zero c =
    let is_size : c.product-size.result ≡ size_of c.args.bits c.args.a * size_of c.args.bits c.args.b = cc in
    let like : beq (is_negative c.args.bits c.args.a) (is_negative c.args.bits c.args.b) ≡ true = cc in
    signed_product_like c.args.bits c.args.a c.args.b c.product-size.result is_size c.product-size.ensures.fits like

pub returns-else-is_below_zero : goal.returns-else-is_below_zero
returns-else-is_below_zero c =
    let is_size : c.product-size.result ≡ size_of c.args.bits c.args.a * size_of c.args.bits c.args.b = cc in
    let unlike : beq (is_negative c.args.bits c.args.a) (is_negative c.args.bits c.args.b) ≡ false = cc in
    let is_negated : _ = signed_product_unlike c.args.bits c.args.a c.args.b c.product-size.result is_size c.product-size.ensures.fits unlike in
    cc (c.negate.ensures, is_negated)
