use Rattle.std.proofs.Common.{ap, arith, rules, ◌∙◌}
use Rattle.ns_objects.proofs.Prelude.{CounterState, accepted, change_in_hand, counter_of, counter_word, the}
use Rattle.ns_objects.proofs.Allowed.{exchanges_word, value_made}
use Rattle.ns_objects.proofs.Rests.{has_exchanged}
use Rattle.ns_objects.proofs.objects.Objects.change.Goals as goal

pub compare_exchange-requires : goal.compare_exchange-requires
compare_exchange-requires c = let q = c.requires in let there = q.counter in let few = q.room.0 in let is = c.from.ensures in (
  search rules,
  omega (arith, there, few, is),
  exchanges_word _ _ _ _ _ c.from.result c.args.counter (change_in_hand (the c.args.seat.now.me.0).place) c.args.value c.args.word c.encode_counter-new.result is q.one there q.place q.fits q.word
      (c.encode_counter-new.ensures ∙ ap (λ (z : CounterState). counter_word (record { value = c.args.value; waited = z.waited })) c.decode_counter-seen.ensures),
)

pub returns-clause-acted : goal.returns-clause-acted
returns-clause-acted c = let q = c.requires in let delta = change_in_hand (the c.args.seat.now.me.0).place in
    let few = (accepted (counter_of c.args.word) delta c.args.value q.fits).1 in
    has_exchanged c.args.counter c.from.result delta (counter_of c.args.word) c.args.value _ c.compare_exchange.result c.args.seat.now.me c.compare_exchange.new.seat.me c.from.ensures
    (value_made c.args.value c.encode_counter-new.result c.decode_counter-seen.result.waited few c.encode_counter-new.ensures) c.compare_exchange.ensures.2
