-- The messages that a builder builds.
use Rattle.std.specs.Prelude.{ℕ, List, None}
use Rattle.is_stun.specs.declared.builder.Builder.{Builder}
use Rattle.is_stun.specs.declared.builder.HasMethod.{HasMethod}
use Rattle.is_stun.specs.declared.builder.HasClass.{HasClass}
use Rattle.is_stun.specs.declared.header.Class.{Class}
use Rattle.is_stun.specs.declared.header.Method.{Method}
use Rattle.is_stun.specs.Message.{AttributesRecord, Message}
use Rattle.is_stun.specs.MessageView.{attributes_view}

-- a message with these attributes, not yet written: it has no MESSAGE-INTEGRITY
abbrev pub built : Method → Class → List ℕ → AttributesRecord → Message
built method class id attributes = record { method = method; class = class; id = id; attributes = attributes; integrity = None }

-- ---- what was set on a builder

abbrev pub attributes_so_far : {State : Type 0} → Builder State → AttributesRecord
attributes_so_far b = attributes_view b.attrs

abbrev pub method_so_far : Builder HasMethod → Method
method_so_far b = b.state.method

-- the method and the class
pub record Kind : Type 0 where
  pub method : Method
  pub class : Class

abbrev pub kind_so_far : Builder HasClass → Kind
kind_so_far b = record { method = b.state.method; class = b.state.class }
