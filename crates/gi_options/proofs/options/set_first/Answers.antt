use Rattle.std.proofs.Common.{◌∙◌, sym, string_bytes}
use Rattle.gi_options.proofs.ChosenLemmas.{set_two, set_one}
use Rattle.gi_options.proofs.options.set_first.Goals as goal

pub returns-then-takes_next-2-clause-ok : goal.returns-then-takes_next-2-clause-ok
returns-then-takes_next-2-clause-ok c =
    let two = set_two string_bytes c.args.choice.now c.args.setting c.args.words.now c.word-item.result c.next-item.result
    c.requires (sym c.takes_next-in-len1-up-rest.ensures ∙ c.if-takes_next-2.true) c.in-len1-up.len_at_least c.word-item.is c.in-len1-up-rest.len_at_least c.next-item.is in
    rw (c.set-in-len1-up-rest.ensures, c.as_str-in-len1-up-rest.ensures.value, c.as_str-in-len1-up-rest-2.ensures.value) two

pub returns-else-takes_next-2-clause-ok : goal.returns-else-takes_next-2-clause-ok
returns-else-takes_next-2-clause-ok c =
    let one = set_one string_bytes c.args.choice.now c.args.setting c.args.words.now c.word-item.result c.next-item.result
    c.requires (sym c.takes_next-in-len1-up-rest.ensures ∙ c.if-takes_next-2.false) c.in-len1-up.len_at_least c.word-item.is c.in-len1-up-rest.len_at_least c.next-item.is in
    rw (c.set-in-len1-up-rest.ensures, c.as_str-in-len1-up-rest.ensures.value, c.as_str-in-len1-up-rest-2.ensures.value) one
