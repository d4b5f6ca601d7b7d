use Rattle.std.proofs.Common.{◌++◌, ℕ, List, ap, ◌∙◌, ◌≡◌}
use Rattle.std.specs.Prelude.{codes, decimal, string_bytes, Vec}
use Rattle.std.specs.declared.alloc.Global.{Global}
use Rattle.gi_answer.proofs.MessageLemmas.{unknown_line}
use Rattle.gi_answer.proofs.messages.unknown.Goals as goal

pub returns-in-Ok-extend_from_slice : goal.returns-in-Ok-extend_from_slice
returns-in-Ok-extend_from_slice c =
    let text : string_bytes c.in-Ok.text ≡ codes "gisel: line " ++ (decimal c.args.line ++ codes ": unknown ") = c.in-Ok.ensures.ok in
    unknown_line c.args.line c.args.name.now _ (c.in-Ok-extend_from_slice.ensures.items ∙ ap (λ (v : List ℕ). v ++ c.args.name.now) (ap (λ (v : Vec ℕ Global). v.items) c.into_bytes-message.ensures.value ∙ text))
