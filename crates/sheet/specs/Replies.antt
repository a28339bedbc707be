-- How replies are written. Assumes nothing.
use Rattle.std.specs.Prelude.{ℕ, List, [], ◌∷◌, ◌++◌, codes, decimal}
use Rattle.sheet.specs.Refusals.{layer_of, layer_text, number_of}
use Rattle.sheet.specs.declared.reply.Reply.{Reply}
use Rattle.sheet.specs.declared.reply.Reply.TheVariants.{Done, Refused}

-- a reply: OK, or NO with layer, number, line and place, parted by spaces
abbrev pub reply_text : Reply → List ℕ
reply_text Done = codes "OK"
reply_text (Refused r line place) =
    codes "NO " ++ (layer_text (layer_of r) ++ (codes " " ++ (decimal (number_of r) ++ (codes " " ++ (decimal line ++ (codes " " ++ decimal place))))))

-- replies one after the other, each ended by byte 10
abbrev pub written : List Reply → List ℕ
written [] = []
written (r ∷ rs) = reply_text r ++ (10 ∷ written rs)
