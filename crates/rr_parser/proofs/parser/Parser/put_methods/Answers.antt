use Rattle.std.proofs.Common.{[], ◌∷◌, ◌++◌, ap, ◌∙◌}
use Rattle.rr_parser.proofs.Joining.{puts_methods}
use Rattle.rr_parser.proofs.parser.Parser.put_methods.Goals as goal

pub returns : goal.returns
returns c =
    puts_methods c.args.self.now c.put.new.self c.put-2.new.self _ _ _ _ _ c.in_ok-reader.ensures.puts c.in_ok-writer.ensures.puts
    (c.in_ok-push-2.ensures.items ∙ ap (λ l. l ++ c.in_ok-writer.writer ∷ []) (c.in_ok-push.ensures.items ∙ ap (λ l. l ++ c.in_ok-reader.reader ∷ []) c.new-methods.ensures.items))
