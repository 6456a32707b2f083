use Rattle.std.proofs.Common.{inr, refl}
use Rattle.ns_timeline.proofs.stepping.draw.Goals as goal

pub returns : goal.returns
returns g c =
    let state = c.state-state.ensures in
    let sight = c.after-after.ensures in
    λ before. inr (record {
      shows = record { writers = λ seat. rw sight.writers (state.writers seat); readers = λ seat. rw sight.readers (state.readers seat); busy = λ seat. rw sight.busy (state.busy seat) };
      drawn = inr (_, record { number = refl; thread = refl; call = refl; row = state.row; reply = c.reply_in-reply.ensures }, refl, refl, c.in_ok-take.ensures);
    })
