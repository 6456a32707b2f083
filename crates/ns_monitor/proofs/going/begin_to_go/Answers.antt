use Rattle.ns_monitor.proofs.Prelude.{come_by, in_room}
use Rattle.ns_monitor.proofs.Standing.{began_by}
use Rattle.ns_monitor.proofs.going.begin_to_go.Goals as goal

pub guess_to_go-tried-requires : goal.guess_to_go-tried-requires
guess_to_go-tried-requires g c = let guess = c.word_alone-guess in let may = guess.ensures.lets c.requires.alone in
    in_room (c.requires.can, (guess.ensures.packs, (may, c.requires.next guess.result may)))

pub returns-then-alone : goal.returns-then-alone
returns-then-alone g c = let tried = c.guess_to_go-tried.ensures in
    come_by _ _ tried.came (began_by _ c.args.walk c.args.going _ _ _ _ (c.word_alone-guess.ensures.lets c.requires.alone) tried.word)

pub load-word-requires : goal.load-word-requires
load-word-requires g c = in_room c.requires.can

pub returns : goal.returns
returns g c = come_by _ _ c.load-word.ensures.did (λ did. (c.load-word.ensures.word, did))
