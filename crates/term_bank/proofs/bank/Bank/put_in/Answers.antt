use Rattle.std.proofs.Common.{◌≡◌, sym, subst}
use Rattle.term_bank.specs.Shapes.{IsNode, sort_of}
use Rattle.term_bank.specs.Values.{IsWorth}
use Rattle.term_bank.specs.Images.{image_in, over_images}
use Rattle.term_bank.specs.Bindings.{IsPutIn}
use Rattle.term_bank.proofs.BindingLemmas.{if_ok, put_base, put_entry, put_shape}
use Rattle.term_bank.proofs.bank.Bank.put_in.Goals as goal

pub returns-in-Base-clause-put : goal.returns-in-Base-clause-put
returns-in-Base-clause-put c = subst (λ s. IsPutIn c.args.self.now c.args.binding.now (image_in c.args.images.now) s c.args.binding.now.base) (sym c.in-Base.is) (put_base c.args.self.now c.args.binding.now (image_in c.args.images.now) c.requires.bank c.requires.binding)

pub returns-in-Entry-clause-put : goal.returns-in-Entry-clause-put
returns-in-Entry-clause-put c = subst (λ s. IsPutIn c.args.self.now c.args.binding.now (image_in c.args.images.now) s c.args.binding.now.entry) (sym c.in-Entry.is) (put_entry c.args.self.now c.args.binding.now (image_in c.args.images.now) c.requires.bank c.requires.binding)

pub returns-in_default : goal.returns-in_default
returns-in_default c =
    let shapes = c.add.new.self in
    let f = image_in c.args.images.now in
    let s = c.args.shape in
    let e = c.add.ensures in
    record {
      put = if_ok (IsNode shapes) (λ n. n.sort ≡ sort_of (over_images f s)) (IsWorth shapes (over_images f s)) (IsPutIn shapes c.args.binding.now f s) c.add.result e.node (rw (← c.over.ensures) e.sort) (rw (← c.over.ensures) e.value)
          (λ n is k h. put_shape shapes c.args.binding.now f s n c.in_default.not-Parameter c.in_default.not-Base c.in_default.not-Entry is k h);
      grows = e.grows;
      bank = e.bank;
    }
